pub mod Counts
pub mod Octets
pub mod Order
