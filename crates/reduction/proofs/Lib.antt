-- Laws of the definitions: a location that is found is taken, the swaps of a reduction are done, and what is live after it was live before.
pub mod Fits
pub mod Swaps
pub mod Faces
pub mod Kept
