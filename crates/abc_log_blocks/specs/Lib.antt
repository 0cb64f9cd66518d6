pub mod Begun
pub mod BlockSinks
pub mod BlockSources
