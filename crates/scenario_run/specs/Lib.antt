pub mod Follows
pub mod Laws
pub mod Legal
pub mod Played
