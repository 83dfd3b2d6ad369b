-- What the functions' proofs cite: the whole run and its answer, told of the lists that the code leaves. Then that a contract leaves no choice, demand 3 of the answer, and that channels agree.
pub mod Running
pub mod Only
pub mod Ample
pub mod Agreement
