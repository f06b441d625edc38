-- What the public calls promise.
pub mod Fields
pub mod Numbers
pub mod Hexadecimal
pub mod Setexpr
pub mod Test
pub mod Board
pub mod Laws
pub mod Expressions
-- What the steps of the code do: no promise speaks of these.
pub mod TestSteps
pub mod BoardSteps
