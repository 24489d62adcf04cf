pub mod Parts
pub mod Spelled
pub mod Missing
pub mod Known
