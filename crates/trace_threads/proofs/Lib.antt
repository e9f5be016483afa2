pub mod Splitting
pub mod Making
pub mod Grouped
pub mod Crossing
pub mod Joining
