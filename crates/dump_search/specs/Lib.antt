-- What the public calls promise.
pub mod Search
pub mod DumpLines
-- What the steps of the code do: no promise speaks of these.
pub mod AreaSums
