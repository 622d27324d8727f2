pub mod Clusters
pub mod Facts
