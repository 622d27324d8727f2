pub mod Cancel
pub mod Open
