pub mod Faults
pub mod Memory
pub use Rattle.std.specs.Io
