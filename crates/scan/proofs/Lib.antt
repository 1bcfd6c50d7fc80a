pub mod Parts
pub mod Tests
pub mod Magnitudes
pub mod Numbers
pub mod Fields
pub mod Keyed
pub mod Listing
pub mod Counting
