-- What the embedding answers, beside the channel; demand 3 of it, and that calls agree.
pub mod Channel
pub mod Agreement
