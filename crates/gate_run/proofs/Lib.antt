pub mod Refusals
pub mod GateRuns
pub mod LedLanes
pub mod FaultedLanes
pub mod GateRunning
pub mod Outcomes
