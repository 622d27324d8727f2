pub mod CutRoom
pub mod Both
pub mod Kills
