pub mod Names
pub mod Members
pub mod Dims
pub mod Columns
pub mod Order
pub mod Contents
pub mod Held
pub mod Each
