pub mod Checks
pub mod Found
pub mod Sound
pub mod Used
