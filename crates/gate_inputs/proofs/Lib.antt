pub mod Ends
pub mod Costs
pub mod Forms
pub mod Redeeming
