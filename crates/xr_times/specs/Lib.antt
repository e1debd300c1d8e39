pub mod Times
pub mod Units
pub mod Counts
pub mod Bins
