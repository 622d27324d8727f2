pub mod Exchanges
pub mod TakesAndPuts
pub mod ByNumber
