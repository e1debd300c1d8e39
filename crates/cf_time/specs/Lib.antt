pub mod Parts
pub mod Days
pub mod Fields
