pub mod FormatLaws
pub mod HeaderLaws
pub mod FileLaws
pub mod RecordLaws
pub mod Counts
