pub mod Setting
pub mod Trips
pub mod Desks
pub mod Rounds
pub mod Run
