mod Barring
mod ByChain
mod Called
mod Calls
mod ClosedSessions
mod Denials
mod Floors
mod Following
mod Forgetting
pub mod Keeping
mod Guarding
mod Learning
mod Listings
mod Packages
mod Pairs
mod Peers
mod Rates
mod Settling
pub mod Running
mod SameAnswers
mod Sending
mod Separate
pub mod Spends
