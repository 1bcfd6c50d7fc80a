pub mod Decimals
pub mod Exact
