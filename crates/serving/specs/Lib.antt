pub mod Registers
pub mod Serving
pub mod Words
pub mod Reading
pub mod Servers
pub mod Histories
