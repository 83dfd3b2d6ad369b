-- Laws of the cast: its rounds as the Rust counts them, its start, and that its simplex is one.
pub mod Hundred
pub mod Start
pub mod Simplices
