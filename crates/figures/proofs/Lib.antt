-- Laws of the definitions, for the proofs of this crate, and what the figures are.
pub mod Placing
pub mod Turns
pub mod Counting
pub mod Folds
pub mod Fitting
pub mod Expansions
pub mod Greatest
pub mod Windows
