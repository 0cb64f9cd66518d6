pub mod Constants
pub mod Spelled
