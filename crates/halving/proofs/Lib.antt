pub mod Put
pub mod Parts
pub mod Lists
pub mod Refusals
pub mod Turns
pub mod Answers
pub mod Each
