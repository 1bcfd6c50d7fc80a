pub mod Claims
pub mod Jobs
pub mod Pins
pub mod ByTwo
pub mod Halved
