pub mod Logs
pub mod Outcomes
pub mod Calls
