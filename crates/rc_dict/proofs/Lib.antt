mod Commute
pub mod Edits
mod Entries
pub mod Kept
mod Merges
mod Told
