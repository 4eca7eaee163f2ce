pub mod Laws
pub mod Octets
pub mod Pages
pub mod Parts
pub mod Pieces
