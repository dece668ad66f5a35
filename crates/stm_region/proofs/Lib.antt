pub mod Places
pub mod Mirroring
pub mod Tracing
pub mod Stepping
pub mod Deciding
pub mod Moves
pub mod Ending
pub mod Laws
pub mod Extending
pub mod Probing
pub mod Timing
mod Freshness
mod RunsCaused
