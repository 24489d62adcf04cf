pub mod Circles
pub mod Counts
pub mod Lists
pub mod Kept
pub mod Places
