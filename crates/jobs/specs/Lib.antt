pub mod Places
pub mod Zero
pub mod Parts
pub mod Lines
