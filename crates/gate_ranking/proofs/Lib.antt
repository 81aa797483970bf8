pub mod Climbing
pub mod Ranks
pub mod Playing
pub mod Replaying
pub mod Holding
pub mod Recursion
