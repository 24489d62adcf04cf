pub mod Sources
pub mod Codes
pub mod Spelled
pub mod Entries
pub mod Named
pub mod KernelSound
pub mod Unchanged
