pub mod Folded
pub mod Operations
