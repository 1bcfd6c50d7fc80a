pub mod Wrote
pub mod Lists
pub mod Lines
pub mod Answer
