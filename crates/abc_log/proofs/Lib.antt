pub mod Digits
pub mod Each
pub mod Showing
pub mod Ended
pub mod Fronts
pub mod Standing
pub mod Spelling
pub mod Lined
pub mod Noting
mod Walks
pub mod Taken
pub mod Takings
pub mod Following
pub mod Parting
pub mod Judging
