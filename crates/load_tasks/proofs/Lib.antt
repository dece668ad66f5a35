mod Ranges
mod Turning
pub mod Drawing
pub mod Streaming
pub mod Totals
pub mod Sending
pub mod OneText
pub mod ReadBack
