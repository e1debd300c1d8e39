pub mod Pushed
pub mod Characters
pub mod Lines
pub mod Listed
pub mod Items
pub mod Heads
pub mod Orders
pub mod Whole
