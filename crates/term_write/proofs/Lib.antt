pub mod Joined
pub mod Terms
