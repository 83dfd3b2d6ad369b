-- What the contracts of this crate cite, `Plan` those of its private functions alone. `Kept` is for ticket 9: laws cite it, no contract does.
pub mod Reduction
pub mod Plan
pub mod Kept
