mod AreaLemmas
pub mod PlaceLemmas
mod Rows
