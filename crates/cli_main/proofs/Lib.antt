mod Ending
pub mod Kept
mod Seeded
pub mod Turning
mod Recorded
mod InTurn
mod Lines
pub mod LoadEnds
pub mod Ledgers
