pub mod Based
pub mod Found
pub mod Members
pub mod Scoped
pub mod AtOnce
pub mod Supers
