pub mod Notes
pub mod Views
pub mod Seats
pub mod Turns
pub mod Workers
pub mod Orderly
pub mod Ends
