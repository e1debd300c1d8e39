pub mod TestSets
