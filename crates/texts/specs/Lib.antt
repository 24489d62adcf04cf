pub mod Bytes
pub mod NameBytes
pub mod Names
pub mod SmallInteger
pub mod Lines
