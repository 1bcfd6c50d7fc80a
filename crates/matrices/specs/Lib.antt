pub mod Products
pub mod Ranges
