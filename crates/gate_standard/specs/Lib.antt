pub mod Amounts
pub mod Examples
pub mod Outputs
pub mod Rules
pub mod Standards
pub mod Laws
