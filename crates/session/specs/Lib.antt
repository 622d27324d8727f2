-- The calls of the list, runs of the program, and what demand 3 says of them.
pub mod Calls
pub mod Runs
pub mod Demand3
