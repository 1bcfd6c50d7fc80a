pub mod Bytes
pub mod Digits
pub mod Number
pub mod Show
