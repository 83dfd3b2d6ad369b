-- What the contracts of this crate cite: the reason of a run's end, its words, and a turn of the program.
pub mod Reasons
pub mod Words
pub mod Turns
