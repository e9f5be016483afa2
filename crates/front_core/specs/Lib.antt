pub mod Answering
pub mod Filled
pub mod Copies
pub mod Front
pub mod Share
pub mod Economy
pub mod Polls
pub mod Gone
