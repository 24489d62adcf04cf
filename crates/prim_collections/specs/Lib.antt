pub mod Joins
pub mod Looks
pub mod Puts
pub mod Slots
pub mod Texts
pub mod TextsSeen
