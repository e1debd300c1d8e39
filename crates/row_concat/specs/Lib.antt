pub mod Blocks
pub mod Spelt
