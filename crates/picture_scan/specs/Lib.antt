pub mod Laws
pub mod Pixels
pub mod Rectangle
pub mod Scan
pub mod Scanning
pub mod Steps
