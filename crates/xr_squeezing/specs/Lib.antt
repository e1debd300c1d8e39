pub mod Alone
pub mod Made
