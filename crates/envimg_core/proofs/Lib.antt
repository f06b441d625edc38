mod ChecksumLemmas
pub mod EntryLemmas
mod Examples
pub mod Facts
mod FitLemmas
pub mod ImageLemmas
mod LawLemmas
mod TableLemmas
mod WriterLemmas
