pub mod RangeLaws
pub mod TermLaws
