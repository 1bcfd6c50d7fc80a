pub mod Live
pub mod Spelled
