pub mod Options
pub mod Values
pub mod Ending
pub mod Showing
