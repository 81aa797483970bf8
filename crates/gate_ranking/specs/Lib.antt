pub mod Keeping
pub mod Lesser
pub mod Ranking
pub mod Rate
pub mod Tournament
