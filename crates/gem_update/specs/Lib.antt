pub mod Fault
pub mod Outcomes
pub mod Update
pub mod References
pub mod Spelling
