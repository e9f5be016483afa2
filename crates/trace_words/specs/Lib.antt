pub mod Lexing
pub mod Faults
pub mod Tables
pub mod Numbers
pub mod Data
pub mod Positions
