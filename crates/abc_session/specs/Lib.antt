pub mod Beside
pub mod Sessions
pub mod Lives
pub mod Ticks
pub mod Told
pub mod Laws
