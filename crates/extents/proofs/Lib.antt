pub mod Exact
pub mod Searching
