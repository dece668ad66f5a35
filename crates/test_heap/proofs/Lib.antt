mod Stocked
mod Walked
