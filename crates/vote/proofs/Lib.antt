-- Laws of the vote.
pub mod Laws
