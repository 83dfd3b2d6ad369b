-- Document 01's number of an answer.
pub mod Numbers
