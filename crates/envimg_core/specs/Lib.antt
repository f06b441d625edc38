-- What the public calls promise.
pub mod Bytes
pub mod Checksum
pub mod Digest
pub mod Environment
pub mod Geometry
pub mod Image
pub mod ImageWriter
pub mod Laws
pub mod Order
pub mod Pieces
pub mod State
-- What the steps of the code do: no promise speaks of these.
pub mod Register
pub mod Steps
