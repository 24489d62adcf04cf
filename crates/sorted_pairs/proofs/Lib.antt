pub mod Below
pub mod Cases
pub mod Found
mod Places
