-- What contracts and laws cite: the run as a definition, in files that follow the Rust; then what is said of its sizes, of its stores, and of two runs.
pub mod Stores
pub mod Face
pub mod Silhouette
pub mod PlainWalk
pub mod Steps
pub mod Start
pub mod Expansion
pub mod Run
pub mod Bounds
pub mod Rule
pub mod Demand3
pub mod Distances
pub mod Same
pub mod Promises
pub mod Code
