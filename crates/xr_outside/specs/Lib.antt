pub mod Memory
pub mod Outside
pub mod PutLog
pub mod Stores
