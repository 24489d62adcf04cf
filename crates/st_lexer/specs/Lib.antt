pub mod Views
pub mod Spans
pub mod Numbers
pub mod FaultText
