pub mod Given
pub mod OwnTests
pub mod Puts
