pub mod Methods
pub mod Names
pub mod Objects
pub mod Rows
