pub mod Reporting
pub mod Deciding
pub mod Gone
pub mod Thresholds
pub mod Passing
pub mod Granting
pub mod MemberDeciding
pub mod Behind
