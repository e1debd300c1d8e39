pub mod Stands
pub mod Variables
pub mod Answers
pub mod Trees
pub mod Meaning
pub mod Carrying
