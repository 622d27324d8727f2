-- The definitions that the contracts cite.
pub mod UndoStep
pub mod ByNumber
