pub mod Trees
pub mod Codes
pub mod Views
pub mod Falls
pub mod EnumFalls
