pub mod Results
pub mod NumberLines
pub mod Lines
pub mod Places
pub mod Shows
pub mod Refused
pub mod Narrower
