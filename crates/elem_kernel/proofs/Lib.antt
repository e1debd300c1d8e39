pub mod Bounds
pub mod ByProducts
pub mod Made
mod Products
pub mod Rounding
pub mod Wholes
