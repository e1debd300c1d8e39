pub mod Named
pub mod Steps
pub mod Made
pub mod Limits
pub mod Answered
