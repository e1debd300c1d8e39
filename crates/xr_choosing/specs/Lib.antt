pub mod Branches
pub mod Held
pub mod Choices
pub mod Called
