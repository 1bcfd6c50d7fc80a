pub mod Kinds
pub mod Formulas
pub mod Parts
