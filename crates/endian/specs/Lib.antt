pub mod Little
pub mod ReadBack
