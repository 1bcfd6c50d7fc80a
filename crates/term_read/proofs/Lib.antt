pub mod Single
pub mod Near
pub mod Several
pub mod Digits
