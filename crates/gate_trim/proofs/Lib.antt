pub mod Aging
pub mod Choosing
pub mod Picking
pub mod Trimmings
