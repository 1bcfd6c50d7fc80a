pub mod Cut
pub mod Keys
pub mod Counts
pub mod Lists
pub mod Words
