pub mod Kept
pub mod Worklist
