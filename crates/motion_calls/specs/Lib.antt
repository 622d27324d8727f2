pub mod Moves
pub mod Copy
