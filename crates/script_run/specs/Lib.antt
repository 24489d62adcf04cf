pub mod Run
pub mod Workers
pub use Rattle.session_laws.specs as session_laws
