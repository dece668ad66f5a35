pub mod Queue
pub mod Keeping
pub mod Turns
