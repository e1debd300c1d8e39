pub mod Aligning
pub mod Reindexing
pub mod Times
