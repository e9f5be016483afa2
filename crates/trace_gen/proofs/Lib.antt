pub mod LineLaws
pub mod TextParts
pub mod PlainWords
pub mod Spellings
pub mod Bodies
pub mod CallLines
pub mod Accepted
