-- What the contracts of this crate cite: the ray, and `minkowski_ray_cast`.
pub mod Ray
pub mod Cast
