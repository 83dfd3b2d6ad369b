-- Laws of the heap's definition, for the proofs of this crate and of those that call it, and an example.
pub mod Steps
pub mod Moves
pub mod Rising
pub mod Ordered
pub mod Places
pub mod Multiset
pub mod Answers
pub mod Told
pub mod Examples
