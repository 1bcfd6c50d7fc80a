pub mod Ascii
pub mod Says
pub mod Words
