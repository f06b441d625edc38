-- What the public calls promise.
pub mod Kinds
pub mod Choices
