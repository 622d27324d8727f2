pub mod Utf8
pub mod Chars
pub mod Encode
pub mod Answer
