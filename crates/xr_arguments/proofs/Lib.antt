pub mod Binding
pub mod Common
pub mod Inside
pub mod Listed
pub mod Variants
