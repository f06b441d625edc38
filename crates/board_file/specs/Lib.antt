-- What the public calls promise.
pub mod Patterns
pub mod Covering
pub mod Answers
pub mod BoardLines
pub mod BoardFiles
