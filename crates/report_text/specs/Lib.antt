pub mod Accesses
pub mod Devices
pub mod Fields
pub mod Grants
pub mod Hosts
pub mod Report
