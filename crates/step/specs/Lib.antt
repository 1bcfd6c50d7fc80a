pub mod Step
pub mod Newton
pub mod Decide
pub mod Meanings
pub mod Ranges
pub mod Values
