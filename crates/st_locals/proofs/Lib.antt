pub mod FormTests
pub mod NameTests
pub mod Searches
