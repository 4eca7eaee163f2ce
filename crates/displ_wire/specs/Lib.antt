pub mod Refused
pub mod Wire
