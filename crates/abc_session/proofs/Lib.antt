pub mod SessionFollowing
pub mod Lived
pub mod Found
pub mod Staying
pub mod Pieces
pub mod Calling
pub mod TicksFollowing
pub mod Telling
