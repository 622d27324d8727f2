pub mod Answered
pub mod Moves
pub mod Edits
pub mod Undos
