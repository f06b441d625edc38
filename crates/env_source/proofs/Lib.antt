pub mod TableLemmas
pub mod Rows
