-- What the contracts of this crate cite: vertices, and support points.
pub mod Vertex
pub mod Support
