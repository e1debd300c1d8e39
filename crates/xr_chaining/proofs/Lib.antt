pub mod Firsts
pub mod Searched
pub mod Called
pub mod Relisted
pub mod Scalars
pub mod Formed
pub mod Variants
