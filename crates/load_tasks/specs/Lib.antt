pub mod Draws
pub mod Setting
pub mod Tasks
pub mod Streams
pub mod Worklist
pub mod Sending
pub mod Laws
