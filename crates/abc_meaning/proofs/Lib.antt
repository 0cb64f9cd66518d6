mod Reaching
pub mod TypeTests
pub mod Coercing
mod Agreeing
pub mod ValueKinds
pub mod Unwinding
mod Examples
pub mod Adding
pub mod Entering
pub mod Values
pub mod Members
pub mod Acting
pub mod Tabled
pub mod Stepping
pub mod Counted
