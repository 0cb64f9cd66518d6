pub mod Crossing
pub mod Answered
pub mod Outcome
pub mod Opening
