pub mod Machine
pub mod Choices
pub mod Turns
