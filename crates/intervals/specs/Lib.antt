pub mod Interval
pub mod Ranges
pub mod Fraction
pub mod Places
