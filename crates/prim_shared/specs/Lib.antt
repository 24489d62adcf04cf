pub mod Kinds
pub mod Held
pub mod Told
pub mod Rights
pub mod NewUsers
