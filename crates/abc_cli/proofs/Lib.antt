pub mod EndedRuns
pub mod CommandRuns
pub mod Called
pub mod Generating
pub mod Logging
pub mod LoggedRuns
pub mod Accepting
pub mod Files
pub mod Checks
pub mod Listings
pub mod Usages
pub mod Assembling
mod OneFile
mod OneRun
mod OneReplay
mod OneOutcome
mod Tidyings
mod SomeOrder
mod SomeLinked
mod SomeVerified
mod SomeRun
mod SomeReplay
mod SomeOutcome
