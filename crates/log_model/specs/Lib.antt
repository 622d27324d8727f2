pub mod Change
pub mod Recording
pub mod Groups
pub mod Layout
pub mod Holds
pub mod UndoBytes
