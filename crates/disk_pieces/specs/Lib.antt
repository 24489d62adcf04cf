pub mod Crashes
pub mod Pieces
