pub mod Crashes
pub mod Pieces
pub mod SoFar
pub mod Switching
