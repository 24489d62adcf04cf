mod Commute
mod Counts
pub mod Edits
pub mod Kept
mod Refusals
mod Sums
mod Sizes
