pub mod Leads
mod Look
mod Marks
mod Steps
