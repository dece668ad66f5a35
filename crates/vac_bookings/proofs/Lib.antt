pub mod Frame
mod Links
pub mod Spots
pub mod Reading
mod Seeking
mod Changing
