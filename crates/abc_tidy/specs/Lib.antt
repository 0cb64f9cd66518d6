pub mod Classed
pub mod Planned
pub mod Things
pub mod Free
pub mod Answers
