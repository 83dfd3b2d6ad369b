-- What the contracts of this crate cite: numbers of a case file, and records.
pub mod Numbers
pub mod Records
