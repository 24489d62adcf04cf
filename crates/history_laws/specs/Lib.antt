pub mod Clean
pub mod Accesses
pub mod Halts
