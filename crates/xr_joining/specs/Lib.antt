pub mod Fitted
pub mod Spreads
pub mod Operands
pub mod TwoArrays
pub mod Coords
pub mod Sorts
