-- What the calls of a device make of its bytes.
pub mod Calls
pub mod Record
