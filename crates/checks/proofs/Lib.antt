pub mod CheckLaws
pub mod AcceptedLaws
pub mod CheckResultLaws
