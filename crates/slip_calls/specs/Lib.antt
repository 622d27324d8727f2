pub mod Places
pub mod Remaining
pub mod Pieces
pub mod Steps
pub mod Answer
