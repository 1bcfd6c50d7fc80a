pub mod Counts
pub mod Longs
pub mod Words
pub mod Lists
pub mod Boxes
pub mod Lengths
pub mod Depths
pub mod Visits
