-- Facts on plain values.
pub mod Regions
mod Lookups
