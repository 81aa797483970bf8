pub mod Journals
pub mod Audits
pub mod Reading
pub mod Laws
