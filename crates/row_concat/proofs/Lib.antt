pub mod Turns
pub mod Stands
pub mod Whole
pub mod Alone
pub mod Values
