pub mod Entries
pub mod Frames
pub mod Gathered
pub mod Placing
pub mod Puts
pub mod Written
