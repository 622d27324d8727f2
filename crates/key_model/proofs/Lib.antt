pub mod Lines
pub mod Numbers
pub mod RingLeft
pub mod Refusals
pub mod FitPresses
pub mod Does
pub mod UndoKey
pub mod Examples
