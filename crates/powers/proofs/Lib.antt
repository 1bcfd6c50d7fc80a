pub mod Examples
pub mod Exact
pub mod Squares
pub mod Laws
pub mod Ranges
