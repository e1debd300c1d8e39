pub mod Conditions
pub mod Masks
pub mod Numbers
pub mod Pairs
pub mod Truths
pub mod Reciprocals
