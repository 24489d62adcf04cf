pub mod Around
pub mod Changing
pub mod Checkpoint
pub mod Opening
pub mod PageFile
pub mod Planned
