pub mod Lines
pub mod Texts
