pub mod Ranges
pub mod Suits
pub mod Deleted
