mod ChangedLemmas
mod DefaultsLemmas
pub mod FileLemmas
mod OpeningLemmas
pub mod SaidLemmas
