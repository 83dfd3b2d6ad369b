-- What the contracts of this crate cite: vectors and numbers, and rotations and poses.
pub mod Vector
pub mod Pose
