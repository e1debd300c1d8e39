pub mod Rows
pub mod Strips
