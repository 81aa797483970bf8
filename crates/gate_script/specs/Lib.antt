pub mod Instructions
pub mod Laws
pub mod Opcodes
pub mod Patterns
pub mod Pushes
pub mod Sigops
pub mod Templates
pub mod Witness
