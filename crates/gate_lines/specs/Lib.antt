pub mod Lines
pub mod Parts
pub mod Reading
pub mod Counting
pub mod Writing
pub mod Words
pub mod Numbers
pub mod Refused
