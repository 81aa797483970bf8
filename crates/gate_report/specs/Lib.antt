pub mod Explaining
pub mod SettingsTold
pub mod AuditJobs
