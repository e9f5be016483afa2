pub mod World
pub mod Steps
pub mod Ends
pub mod Inside
