-- The definitions that the contracts cite.
pub mod Ring
pub mod Calls
pub mod Sound
pub mod Killed
