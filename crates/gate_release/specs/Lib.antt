pub mod Releases
pub mod Laws
