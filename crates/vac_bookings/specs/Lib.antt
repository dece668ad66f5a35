pub mod Bookings
pub mod Lists
pub mod Search
