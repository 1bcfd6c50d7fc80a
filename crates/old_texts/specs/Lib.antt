pub mod Old
pub mod Unvisited
