pub mod Operations
pub mod Bits
pub mod Radix
