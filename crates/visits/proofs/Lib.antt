pub mod Readings
pub mod Steps
