pub mod Answering
pub mod Events
pub mod Freeing
pub mod HasWork
pub mod HeldThroughout
pub mod Hosts
pub mod Keeps
pub mod Names
pub mod Numbered
pub mod Pending
pub mod Ports
pub mod Scenes
pub mod Serviced
mod Pictures
mod ShowsLive
mod Loads
mod Taking
mod Wholes
