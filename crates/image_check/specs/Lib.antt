pub mod Kernel
pub mod Chains
pub mod Faults
pub mod Bodies
