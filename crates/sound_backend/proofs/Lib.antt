mod HeldThroughout
pub mod Hosts
pub mod Keeps
mod Declared
mod Lists
mod Names
pub mod Ports
mod Serviced
pub mod Streams
