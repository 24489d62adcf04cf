pub mod Port
pub mod Effects
pub mod Stone
pub mod Crashes
pub mod Kept
pub mod Inside
