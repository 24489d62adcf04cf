mod Files
mod Images
mod Bringing
mod Plans
mod Planning
mod Taking
mod Opened
mod Few
mod Counted
mod Shares
mod Changes
mod Rests
mod ImagePages
mod Using
pub mod Unchanged
