pub mod Nodes
pub mod Needs
pub mod States
pub mod Connection
pub mod Bus
