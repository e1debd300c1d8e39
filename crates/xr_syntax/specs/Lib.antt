pub mod Syntax
pub mod Grammar
pub mod Tokens
pub mod Spellings
pub mod Scripts
