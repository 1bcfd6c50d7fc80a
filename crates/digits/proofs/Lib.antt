pub mod Cases
pub mod Lists
pub mod Show
pub mod ReadBack
pub mod WriteBack
