pub mod Authors
pub mod Views
pub mod Moves
pub mod Firsts
