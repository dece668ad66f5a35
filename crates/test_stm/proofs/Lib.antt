mod Begun
mod Pools
mod Stocked
mod Tabled
mod Recorded
mod Owned
mod Nulled
mod Walked
