pub mod NumbersInBytes
pub mod Counted
pub mod Blocks
pub mod MaskedCells
pub mod Lengths
