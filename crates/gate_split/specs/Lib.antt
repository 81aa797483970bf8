pub mod Parts
pub mod Splitting
pub mod Examples
pub mod PartedLines
