-- What the proofs of this crate share. Assumes nothing.
mod Default
