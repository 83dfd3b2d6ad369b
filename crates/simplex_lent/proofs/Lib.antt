-- What walks by hand share. No proof of this crate walks by hand now, so none cites it.
mod Clauses
