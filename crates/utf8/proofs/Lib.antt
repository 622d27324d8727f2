pub mod Bits
pub mod Forms
pub mod Chars
pub mod Lead
pub mod Append
pub mod Boundary
pub mod Encode
pub mod Ends
