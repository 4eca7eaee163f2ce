pub mod Activities
pub mod Laws
pub mod Link
pub mod Raise
pub mod Stage
pub mod Stays
