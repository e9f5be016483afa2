mod Lists
mod Traces
mod Starting
mod GoingOn
mod Waiting
