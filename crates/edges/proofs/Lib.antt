-- Laws of rows and records.
pub mod Laws
pub mod Over
pub mod Pairs
pub mod Lent
