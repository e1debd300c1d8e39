pub mod Sets
pub mod Merged
pub mod Attributes
