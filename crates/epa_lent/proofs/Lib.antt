-- What a run over records needs, and that 206 records suffice, so that the run over records is the run over all their numbers.
pub mod Lent
pub mod Ample
