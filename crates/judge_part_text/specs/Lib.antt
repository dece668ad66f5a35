pub mod Reading
pub mod Naming
pub mod Parting
pub mod Until
pub mod Laws
