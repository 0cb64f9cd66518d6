pub mod Alike
pub mod Capped
pub mod Filling
