pub mod Claims
mod EndingGood
pub mod Faults
pub mod Growing
pub mod Owners
pub mod Passes
pub mod Recorded
pub mod Told
pub mod Totals
pub mod Moves
