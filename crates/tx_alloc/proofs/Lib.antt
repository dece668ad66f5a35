pub mod Sums
pub mod Chains
pub mod Moves
mod Taking
mod Walking
mod Refilling
mod Giving
pub mod Empty
mod Spreading
pub mod Spread
pub mod After
pub mod Times
pub mod Order
pub mod Outside
