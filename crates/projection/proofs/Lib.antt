-- Facts on plain values.
pub mod Choice
pub mod Infinite
pub mod Inside
pub mod Unwraps
pub mod Locations
