mod Cuts
mod Moving
pub mod Grows
