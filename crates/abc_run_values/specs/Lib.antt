pub mod Here
pub mod Spelled
pub mod Ready
pub mod Groups
pub mod Reads
pub mod Returned
pub mod Numbers
