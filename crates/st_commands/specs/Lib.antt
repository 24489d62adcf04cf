pub mod Sources
pub mod Leaving
pub mod Replies
pub mod Commands
