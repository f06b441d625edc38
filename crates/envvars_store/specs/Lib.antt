-- What the public calls promise speaks of the environment of envimg_core, and of these.
pub mod Pairs
-- How the variables lie in memory and what the steps of the code do: no promise speaks of these.
pub mod Laying
pub mod Order
pub mod Pieces
pub mod Runs
