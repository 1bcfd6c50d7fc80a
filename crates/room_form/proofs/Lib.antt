pub mod Lowest
pub mod Written
pub mod Whole
pub mod PutReading
pub mod Visited
pub mod Free
pub mod Opening
pub mod Stepping
