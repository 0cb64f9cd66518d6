pub mod Cursor
pub mod Entries
pub mod Names
pub mod Walks
pub mod Ahead
pub mod Counts
pub mod Labels
pub mod Tables
