pub mod Counts
pub mod Bound
pub mod Table
pub mod Examples
