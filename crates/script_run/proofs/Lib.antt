pub mod Starts
pub mod Filling
pub mod Telling
pub use Rattle.session_laws.proofs as session_laws_lemmas
