pub mod Clusters
pub mod Facts
pub mod Forward
pub mod Backward
pub mod Parts
pub mod Steps
