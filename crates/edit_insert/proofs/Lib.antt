pub mod Calls
pub mod Suits
pub mod Twice
pub mod Copied
pub mod Puts
pub mod InPlace
