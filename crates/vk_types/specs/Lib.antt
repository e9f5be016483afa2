pub mod Accesses
pub mod Touches
