pub mod Dates
pub mod Places
