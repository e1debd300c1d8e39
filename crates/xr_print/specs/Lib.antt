pub mod Pieces
pub mod Conditions
pub mod ByName
pub mod Printed
