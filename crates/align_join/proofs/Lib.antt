pub mod Same
pub mod Found
pub mod Relisted
pub mod Keeping
pub mod Told
pub mod Each
