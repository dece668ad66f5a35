pub mod Order
pub mod Ranges
mod Asked
mod Callers
mod Attempting
pub mod Clocking
pub mod Answering
pub mod Beginning
pub mod Opened
pub mod Making
pub mod Notes
mod Pairs
mod Gatherings
pub mod Merging
mod Shares
mod Joining
mod Images
pub mod Loads
mod Eras
