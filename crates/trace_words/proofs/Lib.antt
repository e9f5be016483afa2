pub mod Splitting
pub mod NumberLaws
pub mod DataLaws
