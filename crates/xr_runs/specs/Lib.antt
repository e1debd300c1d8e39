pub mod Evaluation
pub mod Runs
pub mod Calls
