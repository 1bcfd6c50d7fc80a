pub mod Terms
pub mod Fractions
pub mod Ranges
