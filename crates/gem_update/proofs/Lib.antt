mod Order
mod Answered
mod Each
mod Kept
mod Accepted
mod Spelled
mod Classes
