pub mod Terminals
pub mod States
pub mod Progress
pub mod Parsing
