pub mod History
pub mod Leaves
pub mod Moments
pub mod Placed
pub mod Undoing
