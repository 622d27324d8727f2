pub mod Text
pub mod Plain
pub mod Cased
pub mod Catalogue
pub mod Written
pub mod Typed
pub mod Widths
