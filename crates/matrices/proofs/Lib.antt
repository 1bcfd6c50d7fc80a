pub mod Examples
pub mod Live
pub mod Ranges
pub mod Hold
pub mod Turns
