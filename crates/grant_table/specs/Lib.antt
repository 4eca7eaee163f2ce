pub mod Laws
pub mod OwnerLeft
pub mod Owning
