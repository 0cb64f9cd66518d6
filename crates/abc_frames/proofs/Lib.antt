pub mod Views
pub mod FrameCalls
pub mod Living
pub mod Unwinding
