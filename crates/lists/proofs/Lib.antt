pub mod Bools
pub mod Tables
pub mod Parts
pub mod Alls
pub mod Ends
pub mod Stores
pub mod Every
pub mod Concat
