pub mod Repertoire
pub mod Text
pub mod Case
