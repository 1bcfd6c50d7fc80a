pub mod Entries
pub mod Short
pub mod Answers
