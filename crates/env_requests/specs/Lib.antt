-- What the public calls promise.
pub mod Headline
pub mod Requests
pub mod Marks
pub mod Laws
pub mod Views
