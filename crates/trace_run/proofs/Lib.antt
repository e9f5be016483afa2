pub mod Threads
pub mod Reading
pub mod Served
pub mod Words
pub mod Ends
pub mod Leading
