mod Reading
mod Agree
pub mod Passes
mod Breaks
