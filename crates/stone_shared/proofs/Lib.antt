pub mod Turn
pub mod Sent
