pub mod Names
pub mod Reading
pub mod Parts
pub mod Coded
