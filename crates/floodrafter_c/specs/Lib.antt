pub mod Steps
pub mod Parts
pub mod Lists
pub mod Screens
