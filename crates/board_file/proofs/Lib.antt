pub mod PartLemmas
pub mod CoverLemmas
pub mod BoardRows
