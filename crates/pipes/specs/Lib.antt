-- What the contracts of this crate cite.
pub mod Bytes
pub mod Pipes
