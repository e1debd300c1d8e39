pub mod Common
pub mod Frames
pub mod Single
pub mod Numbered
pub mod Pieces
pub mod Orders
pub mod Kept
