-- What the contracts of this crate cite: `relative_eq`, the inside test, and the projections on a segment and a triangle.
pub mod Relative
pub mod Signs
pub mod Values
pub mod Inside
pub mod Segment
pub mod Triangle
