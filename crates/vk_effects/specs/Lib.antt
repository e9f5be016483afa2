pub mod Targets
pub mod Places
pub mod Rows
pub mod Reads
