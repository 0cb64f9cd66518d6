pub mod Arguments
pub mod Entering
pub mod InPlace
pub mod Calls
pub mod Doing
