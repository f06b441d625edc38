-- What the public calls promise.
pub mod Bytes
pub mod Words
pub mod Tokens
pub mod Reading
pub mod Faults
pub mod Parts
pub mod Ranges
pub mod Views
pub mod Laws
pub mod Forms
-- What the steps of the code do: no promise speaks of these.
pub mod Steps
