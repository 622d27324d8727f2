pub mod Records
pub mod Check
pub mod Walks
pub mod Written
