pub mod Calls
pub mod CallContracts
