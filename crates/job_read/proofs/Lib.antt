pub mod Lines
pub mod Pins
pub mod Systems
