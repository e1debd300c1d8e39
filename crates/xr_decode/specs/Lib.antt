pub mod Cells
pub mod Held
pub mod Listed
pub mod Readable
pub mod Roles
pub mod Stored
pub mod Sought
