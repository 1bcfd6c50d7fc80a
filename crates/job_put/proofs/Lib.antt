pub mod Matrix
pub mod Parts
