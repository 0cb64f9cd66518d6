pub mod OwnSlots
pub mod ScriptTraits
pub mod SetKeys
pub mod TablesMade
pub mod LinkedMade
pub mod Ladders
pub mod Tables
