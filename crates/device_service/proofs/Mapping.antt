pub mod Keeping
pub mod Named
pub mod Steps
pub mod Unmaps
