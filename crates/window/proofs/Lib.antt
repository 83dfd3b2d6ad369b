-- What the proof of the move cites.
pub mod Fronts
