mod Lists
mod Values
mod Likes
mod References
mod Entries
mod Seen
mod Bases
mod Updates
mod Moved
mod Records
mod Effects
mod Images
mod Lines
mod Sound
pub mod Runs
