pub mod Lengths
pub mod Fields
mod Apart
pub mod Takes
mod Tagged
mod Values
pub mod Combined
pub mod Lists
mod Loop
pub mod InOrder
mod Equal
mod Parts
mod ListReaders
pub mod Readers
pub mod Given
pub mod Answered
pub mod Whole
