pub mod Chains
pub mod Mades
pub mod Called
pub mod Cellwise
pub mod Spread
pub mod Beside
