mod Booking
mod Serving
mod Rounding
mod Running
