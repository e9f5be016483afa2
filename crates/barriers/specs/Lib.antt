pub mod Licence
pub mod Trackers
pub mod Logs
pub mod Recording
