pub mod Words
pub mod Checked
pub mod Checks
pub mod Answer
