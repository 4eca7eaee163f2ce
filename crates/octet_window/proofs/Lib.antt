mod Blends
pub mod Pages
mod Ranges
pub mod Walks
pub mod Words
