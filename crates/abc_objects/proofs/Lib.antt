pub mod Grown
pub mod Kept
pub mod Reshaped
pub mod Made
pub mod Ways
pub mod Classes
pub mod FixedTexts
pub mod Parts
pub mod Opened
pub mod Started
pub mod Steps
pub mod Lined
mod Firsts
mod Hiding
mod There
mod Examples
pub mod Joins
mod Objectless
mod SlotsFound
mod MethodsFound
