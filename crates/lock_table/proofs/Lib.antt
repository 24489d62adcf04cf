pub mod Changes
pub mod Counts
pub mod Denied
pub mod Exclusive
pub mod Held
mod Request
mod Scan
