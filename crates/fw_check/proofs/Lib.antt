mod LeafLemmas
mod GatherLemmas
mod FoundLemmas
mod SummaryLemmas
mod LiteralLemmas
mod StatusLemmas
mod ExcerptLemmas
mod RereadLemmas
mod ManyLemmas
mod ForeignLemmas
mod ConstantLemmas
mod NameLemmas
mod SortedLemmas
mod FollowLemmas
mod TypeLemmas
mod VisitLemmas
pub mod Rows
pub mod DifferenceRows
pub mod FaultRows
mod LineLemmas
mod AskLemmas
mod EntryPlaceLemmas
mod EntryLawLemmas
