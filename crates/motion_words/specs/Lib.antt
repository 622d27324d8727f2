pub mod Rules
pub mod Walk
pub mod Words
pub mod Places
