mod Alone
mod Arrived
mod Beside
mod Crowded
mod InTurn
