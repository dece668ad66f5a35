pub mod Ending
pub mod Judgement
pub mod Reported
pub mod PartNames
pub mod Verdicts
pub mod Stores
