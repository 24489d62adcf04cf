pub mod Words
pub mod Steps
pub mod Messages
pub mod Whole
pub mod Readings
