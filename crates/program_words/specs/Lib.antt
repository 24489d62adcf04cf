pub mod Asked
pub mod Settings
pub mod Chosen
pub mod WordsGrammar
