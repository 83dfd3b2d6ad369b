-- What the functions' proofs cite, and what document 02's ticket 5 asks.
pub mod Lengths
pub mod Finding
pub mod Turning
pub mod Differ
pub mod Letters
pub mod Ticket
