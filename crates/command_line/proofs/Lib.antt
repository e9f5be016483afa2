pub mod NumberLaws
pub mod ItemLaws
pub mod SeedLaws
