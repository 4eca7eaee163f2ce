pub mod ListSink
pub mod ListSource
pub mod Plan
pub mod Port
pub mod StdPorts
