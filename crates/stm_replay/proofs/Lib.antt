pub mod Counting
pub mod Meanings
pub mod Placing
pub mod Following
pub mod Making
pub mod Numbering
pub mod Tagging
pub mod Replaying
mod Stepping
mod Testing
mod Opacity
