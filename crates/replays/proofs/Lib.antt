pub mod Underway
pub mod Transcripts
