pub mod Lines
pub mod Rounds
pub mod Splits
pub mod PartedLines
