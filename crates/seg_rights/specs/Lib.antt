pub mod Right
pub mod Rights
pub mod WithGroups
