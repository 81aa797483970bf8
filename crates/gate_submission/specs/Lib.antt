pub mod Alone
pub mod Blocks
pub mod Equality
pub mod Findings
pub mod PackageOutcomes
