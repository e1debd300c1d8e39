pub mod Pieces
pub mod Arguments
pub mod Concat
pub mod Merge
pub mod Combine
