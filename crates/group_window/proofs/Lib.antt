pub mod Fits
pub mod Lists
pub mod Ranked
pub mod Mapped
