pub mod Opens
pub mod Cancels
pub mod Examples
