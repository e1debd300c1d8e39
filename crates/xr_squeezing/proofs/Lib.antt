pub mod Common
pub mod Leaving
pub mod Spanned
pub mod Squeezed
