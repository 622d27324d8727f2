pub mod Indices
pub mod Walks
pub mod Landings
pub mod Places
pub mod Stays
