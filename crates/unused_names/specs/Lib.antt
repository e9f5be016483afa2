pub mod Names
pub mod Unused
