pub mod Runs
pub mod Upper
pub mod Ends
pub mod PartRuns
pub mod Standing
pub mod Sent
pub mod Pieces
pub mod Outlines
pub mod Kept
pub mod QuickRuns
pub mod KnownAnswers
mod Placed
mod Changes
mod Turning
mod Lacking
pub mod ReadyAnswers
mod KnownElements
pub mod PutItem
pub mod MoreNils
pub mod Taken
pub mod Evaluated
pub mod Calls
pub mod Called
pub mod KeptOwn
pub mod Flows
