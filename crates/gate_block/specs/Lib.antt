pub mod Text
pub mod Reading
pub mod Switching
