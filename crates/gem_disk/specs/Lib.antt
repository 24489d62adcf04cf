pub mod Disk
pub mod Memory
pub mod Picked
pub mod Recorded
pub mod Runs
