pub mod Requests
pub mod Packets
