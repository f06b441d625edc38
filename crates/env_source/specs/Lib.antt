-- What the public calls promise.
pub mod Faults
pub mod SourceLines
pub mod Reading
pub mod Sources
