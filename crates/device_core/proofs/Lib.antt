pub mod ByPlain
pub mod Drawing
pub mod Extending
pub mod Learning
pub mod MachineRun
pub mod Passing
pub mod Runs
pub mod Saying
pub mod Single
pub mod Stations
pub mod Steps
pub mod Telling
mod Touching
