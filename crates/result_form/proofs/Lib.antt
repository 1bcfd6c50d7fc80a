pub mod Back
pub mod Faults
pub mod Grows
pub mod Trips
pub mod Answers
