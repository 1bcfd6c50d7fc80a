pub mod Cuts
pub mod Ends
pub mod Keys
pub mod Slices
pub mod Pieces
pub mod Counts
pub mod Lists
pub mod ListLines
