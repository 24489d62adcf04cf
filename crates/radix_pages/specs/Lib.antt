pub mod Falls
pub mod Level
pub mod Next
pub mod Node
pub mod Root
pub mod Table
