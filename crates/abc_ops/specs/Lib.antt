pub mod Left
pub mod Conversions
pub mod Types
pub mod Coercions
pub mod Operations
pub mod Compares
pub mod Laws
pub mod Opcodes
