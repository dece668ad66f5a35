pub mod Named
pub mod Histories
pub mod Without
pub mod Parts
pub mod Then
pub mod Illegal
