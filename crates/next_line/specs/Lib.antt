pub mod State
pub mod Limits
