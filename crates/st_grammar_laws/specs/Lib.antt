pub mod Machine
pub mod TreeOf
