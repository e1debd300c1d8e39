pub mod Kinds
pub mod Faults
pub mod Cells
pub mod Points
pub mod Results
pub mod Names
pub mod Widths
pub mod Integers
