pub mod Stored
pub mod WriteBack
pub mod ReadBack
pub mod LiveTerms
