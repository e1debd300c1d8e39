pub mod Listing
pub mod Ranking
pub mod Placed
pub mod Grouping
pub mod Gridded
pub mod Loops
