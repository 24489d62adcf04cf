pub mod Bag
pub mod Counter
pub mod Fault
pub mod Turns
