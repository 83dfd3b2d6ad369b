-- What the answers of this crate cite.
mod Live
