pub mod EvenSteps
pub mod OpeningParts
pub mod Saying
pub mod Steps
pub mod Defaulting
pub mod Heard
pub mod OpeningsGood
