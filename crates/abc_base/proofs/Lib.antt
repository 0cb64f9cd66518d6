pub mod Past
pub mod Formulas
pub mod Spelling
pub mod Writing
