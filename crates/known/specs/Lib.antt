-- The known cases.
pub mod Known
