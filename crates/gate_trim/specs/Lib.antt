pub mod Expiry
pub mod Trimming
pub mod Laws
