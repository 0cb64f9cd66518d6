pub mod Adding
pub mod InTurn
pub mod Taken
