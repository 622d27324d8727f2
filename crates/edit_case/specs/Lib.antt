pub mod EditWord
