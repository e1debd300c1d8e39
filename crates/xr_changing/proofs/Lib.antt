pub mod Common
pub mod NewAxes
pub mod Stepping
pub mod Formed
pub mod PlacedArrays
pub mod SetsPlaced
