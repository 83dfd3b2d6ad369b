-- Laws of reading and writing: there and back, and how long an encoding is.
pub mod RoundTrip
pub mod RecordTrip
pub mod Encodings
pub mod Written
