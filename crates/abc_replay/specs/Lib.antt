pub mod Names
pub mod Replays
pub mod Prefaces
pub mod Laws
