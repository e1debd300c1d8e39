pub mod Agreeing
pub mod Marking
pub mod Naming
