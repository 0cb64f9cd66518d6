pub mod SlotRepeats
pub mod SidedRepeats
pub mod Counting
pub mod Cyclic
