pub mod Entries
pub mod Descents
pub mod Ways
pub mod Lengths
pub mod Answering
pub mod Showing
pub mod Pages
pub mod Examples
