pub mod Boxes
pub mod Parts
pub mod Lists
pub mod Halving
