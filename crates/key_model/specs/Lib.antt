pub mod Stands
pub mod Keyed
pub mod Own
pub mod Contract
