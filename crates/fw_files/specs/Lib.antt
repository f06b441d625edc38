-- What the public calls promise.
pub mod BareLines
pub mod Copies
pub mod FileTexts
pub mod Files
pub mod ForeignTexts
pub mod KnownNames
pub mod Locks
pub mod Misread
pub mod Opening
pub mod Source
pub mod Stops
pub mod WantedCopy
pub mod WrittenBack
