pub mod Lanes
pub mod LaneRuns
pub mod Refusals
pub mod GateJobs
pub mod GateRuns
pub mod FaultedRuns
pub mod ReplyOutcomes
