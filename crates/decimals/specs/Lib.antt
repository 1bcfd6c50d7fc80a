pub mod Units
pub mod Denotes
