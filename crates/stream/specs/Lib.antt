-- What the contracts of this crate cite: the next record, read; and a turn by what a program makes of it.
pub mod Reading
pub mod Stream
