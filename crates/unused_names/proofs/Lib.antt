pub mod LowestNames
pub mod Generated
pub mod Gaps
