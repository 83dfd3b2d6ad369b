-- What the contracts of this crate cite; `Parts` is for private functions, `Exactly` and `Hulls` for the laws on the answers.
pub mod Certificate
pub mod Parts
pub mod Exactly
pub mod Hulls
