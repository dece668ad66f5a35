pub mod Counting
pub mod Heads
pub mod Keys
pub mod Clients
pub mod Greatest
pub mod Taking
pub mod Windows
