pub mod Listed
pub mod Groups
pub mod Blocks
pub mod Groupings
pub mod Calls
pub mod Methods
