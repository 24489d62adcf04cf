mod Sums
pub mod Changes
mod Told
