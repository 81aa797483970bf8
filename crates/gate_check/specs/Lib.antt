pub mod Inputs
pub mod Checks
pub mod CheckJobs
