pub mod Readiness
pub mod Places
pub mod Rising
pub mod Watching
pub mod Order
pub mod Sharing
pub mod Buckets
pub mod Halves
