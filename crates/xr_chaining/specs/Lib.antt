pub mod Sets
pub mod Joining
