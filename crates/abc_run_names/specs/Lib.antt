pub mod Walking
pub mod Form
pub mod Named
pub mod Receivers
pub mod Numbered
pub mod Late
pub mod Walked
pub mod Deleted
