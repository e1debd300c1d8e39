pub mod Truths
pub mod OneType
pub mod Places
pub mod CellByCell
pub mod EachCell
pub mod Results
pub mod StripLaws
pub mod OneCell
