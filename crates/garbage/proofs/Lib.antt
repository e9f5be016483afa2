pub mod Cleanups
pub mod Earlier
