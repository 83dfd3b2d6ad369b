-- What the contracts of this crate cite: the perturbed direction, and `closest_points`; and, for private functions alone, what the code carries.
pub mod Perturbed
pub mod Gjk
pub mod Carried
