pub mod Shown
pub mod Uploads
pub mod Overlaps
pub mod Copies
pub mod Clears
pub mod Blits
pub mod Held
