pub mod Empty
mod LineFronts
mod Bodies
mod Drafts
mod WordSizes
mod Progress
mod Outcomes
pub mod OneAnswer
