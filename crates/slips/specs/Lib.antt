pub mod Keys
pub mod Slips
