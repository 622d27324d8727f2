pub mod Tails
pub mod ByNumber
