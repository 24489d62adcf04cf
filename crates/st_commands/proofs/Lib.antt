pub mod Endings
pub mod Activations
pub mod Replies
pub mod Unread
pub mod Selectors
