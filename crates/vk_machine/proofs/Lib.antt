pub mod Left
pub mod Turns
pub mod Fits
pub mod Keeping
pub mod Stored
pub mod Calls
