mod ChangeLemmas
mod CountLemmas
mod DefaultsLemmas
mod LineLemmas
mod ListingLemmas
mod PartLemmas
mod PlaceLemmas
mod RestorationLemmas
mod ShowLemmas
mod StreamLemmas
mod WriteLemmas
pub mod Rows
