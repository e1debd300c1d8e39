pub mod Flat
pub mod Months
pub mod Listed
