pub mod Rows
pub mod Runs
pub mod SumsTo
pub mod Windows
