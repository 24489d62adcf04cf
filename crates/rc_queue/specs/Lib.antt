pub mod Contents
pub mod Fault
pub mod Turns
pub mod Update
