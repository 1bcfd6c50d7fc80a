pub mod Lines
pub mod Jobs
pub mod Results
pub mod Unvisited
pub mod RequestP10
