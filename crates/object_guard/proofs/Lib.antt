pub mod Walks
pub mod Keys
pub mod Pieces
pub mod Beside
pub mod Names
pub mod Lines
pub mod Costs
