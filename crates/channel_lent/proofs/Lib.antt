-- That the room which suffices does so over records, and that channels over records agree.
pub mod Ample
