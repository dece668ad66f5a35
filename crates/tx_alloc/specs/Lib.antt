pub mod Steps
pub mod Pool
pub mod Drawing
pub mod Spread
pub mod Rows
pub mod Pointer
