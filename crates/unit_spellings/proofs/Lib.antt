pub mod Fronts
pub mod Taken
pub mod Texts
pub mod Given
pub mod Read
mod Rows
pub mod Digits
pub mod DatesTaken
pub mod DatesRead
mod DateRows
