pub mod Coverage
pub mod Attempts
pub mod Entries
pub mod Moments
pub mod Meetings
pub mod Passing
pub mod Text
pub mod Watching
