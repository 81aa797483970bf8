pub mod Settings
pub mod Policies
pub mod Texts
pub mod Laws
