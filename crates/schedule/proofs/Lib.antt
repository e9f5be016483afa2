pub mod Members
pub mod Answered
pub mod Ready
pub mod Lines
pub mod Ways
pub mod Rounds
pub mod Calling
