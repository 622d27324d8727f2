pub mod Fit
pub mod Outcomes
pub mod Lowest
pub mod LowerNumbers
pub mod Texts
pub mod Refusals
