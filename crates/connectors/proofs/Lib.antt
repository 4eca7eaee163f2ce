pub mod Pictures
pub mod Showing
