mod Kept
mod Replay
