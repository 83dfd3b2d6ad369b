-- Laws of the definitions: what is a simplex, and where an operation is refused.
pub mod Laws
pub mod Vertices
pub mod Numbers
