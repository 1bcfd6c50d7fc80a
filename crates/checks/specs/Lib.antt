pub mod Checks
pub mod Accepted
pub mod CheckResult
pub mod Answered
