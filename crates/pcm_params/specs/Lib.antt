pub mod Format
pub mod Params
pub mod Ranges
