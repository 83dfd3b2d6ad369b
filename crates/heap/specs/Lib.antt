-- What the contracts of this crate cite: the heap as functions on lists, and what each call answers.
pub mod Heap
pub mod Calls
pub mod Order
pub mod Ordered
