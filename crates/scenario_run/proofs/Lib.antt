pub mod Alike
pub mod Devices
pub mod Fills
pub mod Grants
pub mod Plays
pub mod Wholes
