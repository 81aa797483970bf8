pub mod Surplus
pub mod Sloping
