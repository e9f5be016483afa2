pub mod Moves
pub mod Made
