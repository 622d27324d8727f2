pub mod Numbers
pub mod Joins
pub mod Newest
pub mod Put
pub mod Written
pub mod ByNumber
