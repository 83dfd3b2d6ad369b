-- Facts on plain values.
pub mod Locations
