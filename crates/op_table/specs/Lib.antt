pub mod Ops
pub mod Prims
