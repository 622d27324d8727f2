pub mod Lines
pub mod Columns
