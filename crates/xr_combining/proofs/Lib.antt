pub mod Promotion
pub mod Placed
pub mod Listed
pub mod Alike
