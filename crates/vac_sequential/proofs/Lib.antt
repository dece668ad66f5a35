pub mod Woven
pub mod Alike
