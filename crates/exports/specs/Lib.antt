pub mod Tellings
pub mod Loading
pub mod Sending
pub mod Days
pub mod Readings
