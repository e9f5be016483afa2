mod Lists
mod Events
mod Counts
mod Numbers
pub mod Steps
