pub mod ErrorText
pub mod Bytes
pub mod Operands
pub mod Written
pub mod Decoded
