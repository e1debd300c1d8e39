pub mod Marks
pub mod Strands
pub mod Ready
pub mod Spreads
