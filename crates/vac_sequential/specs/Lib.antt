pub mod Bookings
pub mod Tries
pub mod TrieFalls
