pub mod Short
pub mod Both
pub mod Fits
