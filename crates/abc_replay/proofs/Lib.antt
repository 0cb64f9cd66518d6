pub mod Inputs
pub mod Lifted
pub mod Parts
mod Longer
pub mod Fronts
pub mod Found
pub mod Logged
mod Counting
pub mod Excluding
pub mod Written
pub mod Judged
pub mod Lent
