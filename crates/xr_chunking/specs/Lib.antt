pub mod Grids
pub mod Sizes
