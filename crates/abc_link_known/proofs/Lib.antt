pub mod FirstPlaces
pub mod Spotted
pub mod Marked
pub mod Firsts
pub mod Telling
