pub mod Buffers
pub mod Laws
pub mod Left
pub mod Lent
pub mod Pixels
pub mod Stock
pub mod Store
