pub mod View
pub mod Ready
pub mod Reads
pub mod Answers
pub mod Puts
pub mod Passes
pub mod Laws
