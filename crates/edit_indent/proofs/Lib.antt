pub mod Calls
pub mod Cuts
pub mod Spaces
