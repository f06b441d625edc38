-- What the public calls promise.
pub mod Input
pub mod Asked
pub mod Streams
pub mod Turns
pub mod Ends
pub mod BlockFaults
pub mod NamedSessions
pub mod ScriptRun
-- What the steps of the code do: no promise mentions these.
pub mod Views
pub mod Handling
pub mod Talks
