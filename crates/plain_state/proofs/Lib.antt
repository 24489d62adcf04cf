pub mod Changes
pub mod Touched
pub mod Slots
pub mod Replaced
pub mod Places
pub mod Segments
pub mod Keys
pub mod Sound
pub mod KeyPuts
mod Shared
mod Rooms
mod Notes
pub mod Bytes
mod Updated
mod NewObjects
mod InTurn
mod OneStep
pub mod Listing
mod Grouping
mod Costs
mod AtHand
mod EntryPlaces
mod SlotPuts
