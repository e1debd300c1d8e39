pub mod Format
pub mod Classic
pub mod Files
pub mod Canonical
