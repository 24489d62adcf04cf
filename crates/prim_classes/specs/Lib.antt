pub mod Superclasses
pub mod Prints
pub mod Symbols
pub mod Segments
pub mod Creation
pub mod ClassWords
pub mod Numbers
