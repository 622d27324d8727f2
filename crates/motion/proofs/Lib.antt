pub mod Steps
pub mod Search
pub mod Matches
pub mod Trim
pub mod Places
