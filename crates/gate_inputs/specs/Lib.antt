pub mod Answers
pub mod Equality
pub mod Examples
pub mod Internal
pub mod Laws
pub mod Reports
