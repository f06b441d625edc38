-- What the public calls promise.
pub mod Bytes
pub mod Config
pub mod Entries
pub mod Export
pub mod Import
pub mod Numerals
pub mod Place
pub mod SetScript
pub mod Sizes
pub mod Spelling
-- What the steps of the code hand on: no promise speaks of these.
pub mod ConfigSteps
pub mod ImportSteps
