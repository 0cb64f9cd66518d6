pub mod Reading
pub mod Rows
pub mod ScriptPlaces
pub mod SetSearch
pub mod Laws
pub mod Rungs
