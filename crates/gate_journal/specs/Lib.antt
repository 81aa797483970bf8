pub mod Laws
pub mod Legal
