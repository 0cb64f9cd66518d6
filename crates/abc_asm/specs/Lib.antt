pub mod Counted
pub mod Coming
pub mod Below
pub mod Whole
