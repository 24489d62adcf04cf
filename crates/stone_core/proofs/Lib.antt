mod ByName
mod Kept
pub mod Largest
mod Spelled
mod Fits
mod OneMore
mod Crashes
pub mod Keeps
mod Calls
mod First
mod StoredEffect
pub mod Others
pub mod Sent
