pub mod Log
pub mod Resting
pub mod Reads
pub mod FaultText
pub mod OldLog
