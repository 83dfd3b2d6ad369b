-- Laws of the definitions, for the proofs of this crate and of those that call it.
pub mod Groups
pub mod Words
pub mod Parts
pub mod Streams
pub mod Shifts
pub mod Examples
