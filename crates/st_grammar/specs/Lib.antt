pub mod Tokens
pub mod Lexed
pub mod Grammar
pub mod Fails
