pub mod Answers
pub mod Assigned
