pub mod Steps
pub mod Search
pub mod Trim
