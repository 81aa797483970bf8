pub mod Prices
pub mod Diagram
pub mod Laws
