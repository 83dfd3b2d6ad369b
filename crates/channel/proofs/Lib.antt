-- What the functions' proofs cite, the numbers of the outcomes, and demand 3 of the channel.
pub mod Separating
pub mod Numbers
pub mod Ample
pub mod Agreement
