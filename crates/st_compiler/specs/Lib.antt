pub mod Instruction
pub mod Code
pub mod TreeCode
pub mod Machine
pub mod Runs
pub mod Emitted
pub mod MadeBlocks
