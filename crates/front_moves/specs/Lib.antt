pub mod Objects
pub mod Core
pub mod Ending
pub mod Recording
pub mod Reasons
pub mod Fences
