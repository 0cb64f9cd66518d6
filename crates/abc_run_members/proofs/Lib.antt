pub mod FoundAbove
pub mod BasesKnown
pub mod Scanned
pub mod Owners
pub mod Searched
pub mod Settled
pub mod Cases
pub mod Places
pub mod Written
pub mod Parts
pub mod Under
pub mod ElementsHeld
pub mod Staying
pub mod Turning
pub mod Pushed
pub mod ScopesBased
pub mod Started
pub mod AtOnce
mod Calls
mod Numerals
mod Told
pub mod SupersAbove
pub mod Made
