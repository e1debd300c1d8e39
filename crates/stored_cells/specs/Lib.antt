pub mod Masks
pub mod Typed
pub mod Counted
