pub mod Keeps
pub mod Outcomes
pub mod Owns
