pub mod Order
pub mod Changes
pub mod Quiet
pub mod Ended
pub mod Applied
