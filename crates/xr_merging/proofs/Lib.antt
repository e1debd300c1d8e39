pub mod Folded
pub mod Called
pub mod Masked
pub mod Columns
pub mod Sharing
pub mod Attributes
pub mod Each
pub mod Merging
