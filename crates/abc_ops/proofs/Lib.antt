pub mod Making
pub mod Parts
pub mod Staying
pub mod Wrapped
pub mod Same
pub mod Spaces
pub mod Opposites
pub mod Checked
