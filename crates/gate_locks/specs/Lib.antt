pub mod Finality
pub mod Locks
pub mod Examples
