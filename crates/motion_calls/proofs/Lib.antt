pub mod Called
pub mod CopyCalls
