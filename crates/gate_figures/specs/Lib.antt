pub mod Figures
pub mod Explaining
pub mod Laws
pub mod Least
pub mod Rooms
pub mod Relatives
pub mod Members
