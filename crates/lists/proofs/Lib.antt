pub mod Tab
pub mod Carry
pub mod All
pub mod Goals
pub mod Sets
pub mod Fills
