pub mod CutLemmas
pub mod LineLemmas
pub mod WordLemmas
pub mod NumeralLemmas
