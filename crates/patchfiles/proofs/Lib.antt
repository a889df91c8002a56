pub mod Running
pub mod Forms
pub mod Answering
pub mod Ending
