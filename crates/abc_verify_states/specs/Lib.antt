pub mod Marking
pub mod Needs
pub mod Frames
pub mod Triples
