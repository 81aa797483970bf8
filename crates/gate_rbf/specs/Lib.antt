pub mod Direct
pub mod Gathering
pub mod Paying
pub mod Replacing
