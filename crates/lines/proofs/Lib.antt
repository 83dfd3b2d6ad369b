-- Laws of the definitions, for the proofs of this crate and of those that call it.
pub mod Puts
pub mod Lengths
pub mod Digits
pub mod Only
