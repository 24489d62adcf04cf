pub mod Appends
