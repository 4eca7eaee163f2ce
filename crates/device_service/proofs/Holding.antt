pub mod Held
pub mod All
pub mod Lengths
