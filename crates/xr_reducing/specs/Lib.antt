pub mod Mades
pub mod Sets
pub mod Reduced
pub mod Running
