pub mod Cookies
pub mod Entries
pub mod Laws
