-- Laws of the definitions: the loop ends, and what a refusal leaves.
pub mod Finished
pub mod Enough
