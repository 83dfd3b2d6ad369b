-- Laws of the definitions, for the proofs of this crate.
pub mod Gone
pub mod Reading
pub mod Unread
