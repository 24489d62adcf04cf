pub mod Lines
pub mod Script
pub mod ScriptGrammar
pub mod Rules
pub mod Reading
pub mod FaultText
