pub mod Ending
pub mod NarrowFiles
pub mod Narrowing
pub mod Passing
