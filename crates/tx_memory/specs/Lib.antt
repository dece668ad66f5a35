pub mod Image
pub mod View
pub mod Seen
pub mod Plain
pub mod PlainSeen
pub mod Pairs
pub mod Paired
pub mod Accesses
