-- That a refusal stands to the loop's end.
pub mod Stays
