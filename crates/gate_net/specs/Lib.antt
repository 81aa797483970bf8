pub mod Addresses
pub mod Spelling
pub mod Subnets
pub mod Permissions
pub mod Whitelists
pub mod Laws
pub mod Examples
pub mod SubnetTexts
