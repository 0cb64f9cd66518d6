pub mod Marked
pub mod Slots
pub mod Finds
pub mod Starts
pub mod Pairs
pub mod Threes
