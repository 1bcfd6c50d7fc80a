pub mod Fits
pub mod Short
