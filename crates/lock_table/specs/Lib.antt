pub mod Asked
pub mod Granted
pub mod LockKind
pub mod Locks
pub mod Search
