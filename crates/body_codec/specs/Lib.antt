pub mod Spelled
pub mod Stored
pub mod Reading
pub mod ReadingBodies
pub mod Answers
pub mod FaultText
pub mod Whole
