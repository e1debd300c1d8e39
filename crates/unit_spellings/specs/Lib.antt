pub mod Spellings
pub mod DateTexts
