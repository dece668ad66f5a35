pub mod Accounts
pub mod Keeping
