pub mod Parts
pub mod Walks
pub mod Grows
pub mod Owned
pub mod Wrapping
pub mod Following
pub mod Operands
