pub mod Pages
pub mod Spelled
pub mod Contents
pub mod Extent
pub mod Laid
pub mod Stored
pub mod FaultText
pub mod Reads
