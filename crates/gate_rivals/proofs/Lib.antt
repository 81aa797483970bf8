pub mod Replacing
pub mod Rivalry
