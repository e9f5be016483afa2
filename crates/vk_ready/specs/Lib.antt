pub mod Ready
pub mod Slots
pub mod Filing
pub mod Halves
