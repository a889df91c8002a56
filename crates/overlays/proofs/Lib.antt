pub mod Parting
pub mod Splicing
pub mod Replacing
pub mod Laying
pub mod Stretches
