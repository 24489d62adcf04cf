pub mod Escapes
pub mod Line
pub mod Report
