pub mod Refusals
pub mod Runs
pub mod Records
pub mod Meant
pub mod Files
pub mod Ends
