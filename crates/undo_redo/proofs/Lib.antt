pub mod Redos
pub mod Examples
