pub mod FaultText
pub mod Keeper
pub mod Memory
pub mod Failing
pub mod Found
pub mod Crashes
