pub mod Repeats
pub mod Clashes
pub mod Times
pub mod Cycles
