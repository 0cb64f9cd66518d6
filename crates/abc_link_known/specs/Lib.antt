pub mod Slates
pub mod Spots
