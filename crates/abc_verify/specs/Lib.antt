pub mod Visits
pub mod Asking
pub mod Typed
pub mod VerifyRefusing
pub mod Verified
pub mod FileRefusing
