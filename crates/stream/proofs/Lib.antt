-- What the functions' proofs cite, the window, and demand 3 of a turn.
pub mod Turns
pub mod Windows
pub mod Ample
