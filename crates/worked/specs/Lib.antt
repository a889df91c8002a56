pub mod Sitting
pub mod Worked
