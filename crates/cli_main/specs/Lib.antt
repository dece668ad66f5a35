pub mod Program
pub mod Load
pub mod Ending
pub mod Statistics
