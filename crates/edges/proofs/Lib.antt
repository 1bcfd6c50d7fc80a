pub mod Fits
pub mod Found
pub mod Halves
