pub mod Chunks
pub mod Demo
