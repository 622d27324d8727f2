pub mod Checks
pub mod Answers
pub mod Outcome
pub mod Refused
