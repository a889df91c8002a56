pub mod Serving
pub mod Answering
pub mod Listening
pub mod Reading
pub mod Running
pub mod Histories
