pub mod Faults
pub mod Fields
pub mod Maps
pub mod Inputs
pub mod Psbts
pub mod Finished
pub mod Encoding
