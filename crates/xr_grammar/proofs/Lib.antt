pub mod Ranks
pub mod Meaning
pub mod Follows
pub mod Leads
pub mod Rests
pub mod Exact
mod Examples
pub mod Reading
pub mod Faults
