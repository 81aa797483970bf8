pub mod Trials
pub mod Spent
