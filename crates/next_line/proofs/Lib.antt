pub mod Arms
pub mod Backs
pub mod Rooms
pub mod Fits
