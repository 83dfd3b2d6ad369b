-- What the contracts of this crate cite: the projection on a tetrahedron.
pub mod Tetrahedron
