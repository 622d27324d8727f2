pub mod Cased
pub mod Suits
pub mod Recased
pub mod Begins
pub mod Plans
