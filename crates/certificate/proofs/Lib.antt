-- Laws of the checker.
pub mod Tests
pub mod Order
pub mod Sizes
pub mod Places
pub mod Answers
pub mod Whole
pub mod Gaps
pub mod Apart
pub mod Common
