pub mod Capped
pub mod Signs
pub mod Splits
pub mod Values
pub mod Fields
pub mod Rooms
pub mod Buffers
