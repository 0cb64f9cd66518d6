pub mod Alike
pub mod Chaining
pub mod Collecting
pub mod Passing
pub mod Moving
pub mod Rest
