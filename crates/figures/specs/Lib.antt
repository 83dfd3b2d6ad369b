-- What the contracts of this crate cite: the figures, the turn that counts a record, the lines that tell them, and what they come to.
pub mod Figures
pub mod Reckoning
pub mod Campaign
pub mod Exact
