pub mod Present
pub mod EachCell
pub mod Totals
pub mod FoldedCells
pub mod Trees
pub mod Evaluated
pub mod Unchanged
