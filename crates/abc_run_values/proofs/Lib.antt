pub mod Opened
pub mod Shaped
pub mod Making
pub mod Armed
pub mod Doing
pub mod MovingOps
pub mod ComputingOps
pub mod OtherOps
