pub mod Jobs
pub mod Table
