-- Laws of the proposer.
pub mod Kept
