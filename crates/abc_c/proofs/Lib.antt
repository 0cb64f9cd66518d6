pub mod Answering
pub mod Telling
pub mod Begun
pub mod Using
