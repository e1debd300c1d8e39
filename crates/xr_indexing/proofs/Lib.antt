pub mod Walks
pub mod Loops
pub mod Numbers
pub mod Taken
