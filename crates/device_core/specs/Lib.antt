pub mod Learned
pub mod Machine
pub mod Names
pub mod Order
pub mod Site
pub mod Told
pub mod Touched
