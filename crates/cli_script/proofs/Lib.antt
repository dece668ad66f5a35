pub mod Running
pub mod Opening
pub mod Answering
pub mod Closing
pub mod Dumping
pub mod WordLines
pub mod Checking
pub mod Causes
