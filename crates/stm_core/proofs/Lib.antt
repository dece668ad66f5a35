pub mod Lists
pub mod Eras
pub mod Lones
pub mod Knowing
pub mod Turns
pub mod Orders
pub mod Loading
pub mod Locking
pub mod Ticking
pub mod Clearing
pub mod Deciding
pub mod Storing
pub mod Releasing
pub mod Stories
pub mod Filing
pub mod Committing
pub mod Sums
pub mod Held
pub mod Steps
pub mod Joining
pub mod Renewals
pub mod Renewing
pub mod Whole
pub mod Histories
pub mod Merging
pub mod Facts
pub mod Dating
pub mod Traced
pub mod Tracing
pub mod Playing
pub mod Conditions
pub mod Examples
pub mod Places
pub mod Amounts
pub mod Courses
mod Moving
mod Going
mod Aborting
mod Causing
mod Touching
mod Spending
mod ConflictExamples
