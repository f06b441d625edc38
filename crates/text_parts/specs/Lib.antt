-- What the public calls promise.
pub mod Bytes
pub mod Words
pub mod Lines
pub mod Digits
pub mod Numerals
-- What the steps of the code do: no promise speaks of these.
pub mod LineSteps
