pub mod JobForm
pub mod Live
pub mod JobBytes
pub mod Before
