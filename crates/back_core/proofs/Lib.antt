pub mod Sees
pub mod Frames
mod CleanedUp
mod Uses
mod Room
pub mod Holding
pub mod Calls
pub mod Numbers
mod TakenOut
mod Cleans
pub mod Waiting
mod Runs
mod Lists
mod Parts
mod Numbered
mod Each
mod Replacing
mod Grouped
mod Adding
mod Makers
mod Plans
mod OwnLogs
mod GroupLogs
mod Planned
mod Layouts
mod Visible
mod Agreeing
pub mod Going
mod Placed
mod Journals
mod Made
mod Known
mod Objects
mod Alone
mod Idle
mod Work
mod Piles
mod Given
mod Lives
mod Fits
mod Meets
pub mod Outside
pub mod Apart
mod Whole
pub mod Losses
mod EndsClean
mod Calling
mod HostBytes
