pub mod Accepted
pub mod Subcommands
pub mod ScriptOptions
pub mod LoadOptions
pub mod Naming
