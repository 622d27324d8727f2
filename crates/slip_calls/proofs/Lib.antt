pub mod Places
pub mod Newlines
pub mod Clusters
pub mod Pieces
pub mod Remaining
pub mod Steps
pub mod Passes
pub mod Answer
