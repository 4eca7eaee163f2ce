pub mod Laws
pub mod Line
pub mod Queue
pub mod Refusal
pub mod State
pub mod Stream
pub mod Tick
