pub mod Below
pub mod DeletedParts
pub mod DeletedTaken
pub mod Takes
pub mod NamedOps
pub mod ObjectOps
pub mod Walked
pub mod Bodied
pub mod NewOps
pub mod MembersMade
pub mod MemberOps
pub mod Homes
pub mod Searching
pub mod Receiving
pub mod ScopeOps
pub mod SuperOps
pub mod Grouped
pub mod Led
mod Dispatched
mod Told
pub mod Coded
mod StepTaken
