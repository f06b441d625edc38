-- What the public calls promise.
pub mod Builtins
pub mod Statuses
pub mod Commands
pub mod StandInLines
pub mod Departures
pub mod Stubs
pub mod Hardware
pub mod CommandNames
pub mod Messages
pub mod Expansion
pub mod Shells
pub mod Scopes
pub mod Buffers
pub mod Output
pub mod Writing
pub mod Saving
pub mod Saves
pub mod Listing
pub mod Carrying
pub mod Following
-- What the steps of the code do: no promise speaks of these.
pub mod Entries
