pub mod Texts
pub mod LaneLines
pub mod LaneJobs
pub mod PrintedJournals
pub mod PrintedReplies
