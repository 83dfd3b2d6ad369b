-- What the contracts of this crate cite.
pub mod Embedding
pub mod Impact
