pub mod Greatest
mod WithGroups
