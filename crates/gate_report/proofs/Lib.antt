pub mod AuditRefusals
pub mod RulesTold
pub mod SettingsTold
