pub mod Bounds
pub mod Tables
