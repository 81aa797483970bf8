pub mod UserCalls
pub mod Equality
pub mod Callers
pub mod Spelled
pub mod Following
pub mod Texts
pub mod Replies
pub mod Recording
