pub mod Face
pub mod Stands
pub mod Steps
pub mod Wanted
pub mod Calls
