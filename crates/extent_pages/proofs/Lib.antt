pub mod Tests
pub mod Frame
pub mod Ways
pub mod Files
pub mod Back
pub mod Filled
pub mod Payloads
mod Loops
mod Chains
mod Extents
