pub mod Ranges
pub mod Terms
