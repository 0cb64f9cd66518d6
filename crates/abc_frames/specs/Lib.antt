pub mod Frame
pub mod Laid
pub mod Moves
pub mod Ready
pub mod Throws
