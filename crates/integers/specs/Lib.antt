pub mod Absolute
pub mod Equal
pub mod Least
pub mod Rounding
pub mod Sums
pub mod Ranges
