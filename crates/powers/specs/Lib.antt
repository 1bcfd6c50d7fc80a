pub mod Exact
pub mod Powers
pub mod Ranges
