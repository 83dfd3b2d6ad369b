-- What the contracts of this crate cite: when two answers agree, and what three of them give.
pub mod Vote
