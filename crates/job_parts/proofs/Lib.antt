pub mod Fits
pub mod Takes
pub mod Ends
pub mod Whole
pub mod Cutting
