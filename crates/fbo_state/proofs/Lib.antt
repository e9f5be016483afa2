pub mod Areas
pub mod Detached
pub mod Statuses
