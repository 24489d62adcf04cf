pub mod Places
pub mod Points
pub mod Faults
