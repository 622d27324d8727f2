pub mod TransposeChars
pub mod TransposeWords
pub mod WordPairs
