pub mod Answers
pub mod Queries
