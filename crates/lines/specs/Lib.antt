-- What the contracts of this crate cite: text that goes into a slice, and the lines of output.
pub mod Text
pub mod Lines
