pub mod Own
pub mod Listing
pub mod Asked
