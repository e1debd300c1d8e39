pub mod Steps
pub mod Changed
