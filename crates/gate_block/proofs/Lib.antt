pub mod Spelled
pub mod Switches
