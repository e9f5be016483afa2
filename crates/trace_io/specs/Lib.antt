pub mod Memory
pub mod Statuses
