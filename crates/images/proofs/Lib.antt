pub mod Loading
pub mod Separate
pub mod Walking
pub mod Headers
pub mod Showing
pub mod HeaderBytes
