pub mod Slip
pub mod Promised
