pub mod Numbering
pub mod Forest
pub mod Laid
pub mod Owning
pub mod Files
pub mod Tables
pub mod Strings
pub mod Grouped
