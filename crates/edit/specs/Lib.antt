pub mod Plan
pub mod Room
pub mod Calls
