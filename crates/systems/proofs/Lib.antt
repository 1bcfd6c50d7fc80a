mod Wiped
pub mod Exponents
pub mod Monomials
pub mod Formulas
pub mod Systems
pub mod Examples
