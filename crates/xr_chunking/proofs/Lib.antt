pub mod Read
pub mod Cutting
pub mod ArrayCut
pub mod VarsCut
pub mod SetCut
