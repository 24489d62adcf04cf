pub mod Oid
pub mod Conflict
