pub mod Steps
pub mod Diffs
pub mod Sets
