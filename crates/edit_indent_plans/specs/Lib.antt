pub mod IndentPlans
pub mod Touched
pub mod Counts
