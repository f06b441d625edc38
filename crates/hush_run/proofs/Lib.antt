mod Counts
mod Parts
mod TurnLemmas
mod PlaceLemmas
mod Descends
mod RiseLemmas
mod LeaveLemmas
mod StepLemmas
mod NameLemmas
mod ValueLemmas
mod NodeLemmas
mod Halting
mod AdvanceLemmas
mod OutcomeLemmas
mod MeaningRows
pub mod FrameLemmas
