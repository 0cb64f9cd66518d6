pub mod Pieces
pub mod Tables
pub mod Digits
pub mod Padding
pub mod Keeping
