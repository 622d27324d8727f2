pub mod Numbers
pub mod Read
pub mod Written
