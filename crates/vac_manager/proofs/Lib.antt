pub mod Legality
pub mod Lawful
pub mod Trying
pub mod Openings
pub mod Adding
pub mod Counting
pub mod Placing
pub mod Calling
pub mod Histories
pub mod Versions
mod Words
