pub mod Checks
pub mod Gets
pub mod Inside
pub mod Lefts
pub mod Names
pub mod Order
pub mod Places
pub mod Rows
