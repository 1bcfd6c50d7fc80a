pub mod Checked
pub mod Single
pub mod Ways
