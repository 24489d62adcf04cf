pub mod Dict
pub mod Fault
pub mod Turns
