mod Names
mod Ready
