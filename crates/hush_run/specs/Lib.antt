-- What the public calls promise.
pub mod Meaning
pub mod Stacks
pub mod Runs
pub mod Laws
pub mod Traces
-- What the steps of the code do: no promise speaks of these.
pub mod Counting
pub mod Resume
pub mod Turns
pub mod Rises
pub mod Steps
pub mod Advances
