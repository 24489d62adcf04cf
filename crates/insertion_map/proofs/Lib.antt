mod Cases
mod Puts
mod Removals
mod Words
