pub mod Adding
pub mod Finding
pub mod Gathering
pub mod Visiting
pub mod Graphs
pub mod Uniting
pub mod Marking
pub mod Settling
