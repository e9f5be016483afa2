pub mod Orders
pub mod Newest
pub mod Facts
pub mod Standing
pub mod Contexts
pub mod Signalled
pub mod Made
pub mod Waits
