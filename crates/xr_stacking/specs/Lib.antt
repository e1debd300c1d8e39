pub mod Lines
pub mod Parts
pub mod Members
pub mod Coords
pub mod Axes
