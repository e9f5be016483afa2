pub mod Placing
pub mod Bringing
pub mod Lasts
pub mod Packing
pub mod Showing
pub mod Fits
