mod Nexts
mod Root
mod Slots
pub mod Tables
