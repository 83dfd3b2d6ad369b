-- What the contracts of this crate cite: the simplex and its operations.
pub mod Simplex
pub mod Operations
