pub mod Rules
pub mod Words
