pub mod Words
pub mod Places
pub mod Answered
pub mod Lines
pub mod Texts
