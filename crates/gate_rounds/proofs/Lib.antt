pub mod LaneTexts
pub mod LaneRefusals
pub mod Telling
pub mod ReplyLines
pub mod JournalLines
pub mod AuditedLanes
