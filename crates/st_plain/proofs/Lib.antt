pub mod Runs
pub mod Blocks
pub mod Turns
pub mod Counts
pub mod Lists
pub mod Assigned
