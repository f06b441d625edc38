mod CallLemmas
mod DryRunLemmas
pub mod WordLemmas
pub mod Rows
