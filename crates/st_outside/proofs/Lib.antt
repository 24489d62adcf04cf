mod Steps
mod Ups
pub mod Indexes
pub mod Slots
mod Elements
mod Placing
