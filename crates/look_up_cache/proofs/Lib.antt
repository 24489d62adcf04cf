pub mod Calms
pub mod Gives
pub mod Stays
pub mod Steps
pub mod Told
pub mod Names
pub mod Naming
pub mod Atoms
mod Edits
mod Replaced
mod Keeps
mod Places
mod Again
pub mod Answering
pub mod Operators
mod Remembering
mod There
pub mod AfterReads
mod AfterWrites
pub mod Meets
pub mod Sequences
mod Slots
mod Lacking
mod Ends
