pub mod Lines
pub mod Columns
pub mod Places
pub mod AsBefore
